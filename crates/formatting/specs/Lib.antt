pub mod Flags
pub mod FlagsAsNumber
pub mod Hex
pub mod Escape
pub mod Bytes
