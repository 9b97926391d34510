pub mod Laws
pub mod Playing
pub mod Stepping
pub mod Going
