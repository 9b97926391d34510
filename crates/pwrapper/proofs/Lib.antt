pub mod Digits
pub mod Escapes
pub mod Lengths
pub mod Ranges
pub mod Shortest
pub mod Sign
