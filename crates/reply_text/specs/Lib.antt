pub mod Refusal
pub mod Stop
pub mod Judgement
pub mod Summary
pub mod Outcome
