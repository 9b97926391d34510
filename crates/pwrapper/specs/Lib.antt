pub mod Digits
pub mod Number
pub mod QuotedCount
