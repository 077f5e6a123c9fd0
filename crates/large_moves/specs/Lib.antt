pub mod Laid
pub mod Times
pub mod Moves
pub mod Scans
pub mod Coloured
pub mod Moved
pub mod Laws
