pub mod ItemsLetIn
pub mod OrdersByColour
pub mod LeastFromTable
mod ColoursCounted
mod KeysLeftOut
mod KeysInHalves
mod NewSlab
mod ReachRaised
