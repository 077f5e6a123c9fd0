pub mod Finds
pub mod Choices
pub mod Losses
pub mod Wholes
