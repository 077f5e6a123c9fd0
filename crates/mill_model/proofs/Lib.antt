pub mod FirstPlaces
pub mod Slabs
pub mod RisingLists
pub mod Sizes
pub mod Records
mod Numbering
