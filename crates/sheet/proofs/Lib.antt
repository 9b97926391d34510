pub mod Agrees
pub mod Example
pub mod Printing
pub mod Stepping
