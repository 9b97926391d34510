pub mod ByFlags
pub mod Laid
pub mod Single
