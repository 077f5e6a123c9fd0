pub mod Packs
pub mod Joins
pub mod Cells
pub mod Reaches
