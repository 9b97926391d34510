pub mod Output
pub mod Keeping
pub mod Rest
pub mod Moves
pub mod Held
pub mod Agree
pub mod Counting
pub mod Known
