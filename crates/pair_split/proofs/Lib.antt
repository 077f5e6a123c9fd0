pub mod ShiftedBits
pub mod RowBits
pub mod Front
pub mod Pushed
pub mod OneMore
pub mod WayBack
pub mod GatheredLoads
pub mod CheapestSplit
