pub mod Lists
pub mod Links
pub mod Forest
pub mod Nodes
pub mod Rows
