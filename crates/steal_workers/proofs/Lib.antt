pub mod Thieves
pub mod Deals
pub mod Backs
pub mod Seatings
pub mod Begun
pub mod Ends
pub mod GoesOn
