pub mod Calls
pub mod Events
pub mod Losses
pub mod AtWork
pub mod Ends
