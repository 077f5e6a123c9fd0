pub mod Filling
pub mod LeastSizes
