pub mod Untouched
pub mod Agreement
