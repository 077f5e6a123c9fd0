pub mod Keys
pub mod Ranks
pub mod Limits
pub mod Places
pub mod Plans
pub mod Classes
pub mod Twins
