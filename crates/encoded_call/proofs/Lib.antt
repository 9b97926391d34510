pub mod Decoding
pub mod Texts
