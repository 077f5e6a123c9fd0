pub mod Rising
pub mod Fits
pub mod Logged
pub mod Text
pub mod Judged
pub mod Pieces
