pub mod Order
pub mod Rises
pub mod RecordLines
pub mod Reading
pub mod Unique
pub mod Judging
pub mod PrintedLog
