pub mod Played
pub mod Noting
