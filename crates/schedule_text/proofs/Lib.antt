pub mod FirstToken
pub mod Decided
pub mod WorkerNumbers
