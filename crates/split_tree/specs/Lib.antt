pub mod Node
pub mod Groups
pub mod Keys
pub mod KeyLaws
