pub mod Merging
pub mod Rows
pub mod Paths
pub mod RecordTree
