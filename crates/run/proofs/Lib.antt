pub mod Agreed
pub mod Playing
