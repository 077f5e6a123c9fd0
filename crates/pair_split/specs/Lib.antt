pub mod Words
pub mod Splits
pub mod States
pub mod Tables
pub mod Loads
