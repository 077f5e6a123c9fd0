pub mod Items
pub mod Packing
pub mod Later
pub mod Knapsacks
