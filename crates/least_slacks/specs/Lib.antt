pub mod Items
pub mod Later
pub mod Keys
pub mod Limits
pub mod Parts
