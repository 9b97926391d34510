pub mod Value
pub mod Write
pub mod Truncate
