pub mod Better
pub mod Taken
