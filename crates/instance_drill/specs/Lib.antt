pub mod Draws
pub mod Drilled
