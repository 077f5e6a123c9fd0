pub mod Joins
pub mod Pushes
pub mod Grown
mod Walk
mod Children
pub mod Nodes
pub mod Losses
pub mod Live
pub mod Coming
pub mod LiveGroups
pub mod SameKeys
pub mod LightOrders
