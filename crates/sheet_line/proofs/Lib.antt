pub mod Words
pub mod Readings
pub mod Splits
pub mod Decimals
