pub mod Sets
pub mod Without
