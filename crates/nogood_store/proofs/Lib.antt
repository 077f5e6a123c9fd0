pub mod Bests
pub mod Numbers
