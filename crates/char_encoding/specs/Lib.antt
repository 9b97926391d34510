pub mod Char
