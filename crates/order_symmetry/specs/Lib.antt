pub mod Numbered
pub mod Ranked
pub mod Twins
