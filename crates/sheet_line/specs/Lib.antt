pub mod Begin
pub mod Line
pub mod Reading
