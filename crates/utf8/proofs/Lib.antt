pub mod Grammar
pub mod Ranges
pub mod Rfc3629
pub mod StdText
