pub mod Charges
pub mod LeastSize
