pub mod Output
pub mod Sequence
