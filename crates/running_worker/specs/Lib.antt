pub mod Running
pub mod Jobs
pub mod Worked
pub mod AtWork
