pub mod Counts
pub mod Judged
pub mod Pairs
pub mod Slabs
