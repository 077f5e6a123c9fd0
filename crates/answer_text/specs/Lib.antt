pub mod Line
pub mod Text
pub mod Judged
pub mod Reading
