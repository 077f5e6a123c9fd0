pub mod Lists
pub mod Plain
pub mod Crew
pub mod Replayed
pub mod Resumed
