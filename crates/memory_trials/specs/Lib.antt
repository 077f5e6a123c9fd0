-- What trials keep from step to step.
pub mod Kept
