pub mod Left
pub mod Step
