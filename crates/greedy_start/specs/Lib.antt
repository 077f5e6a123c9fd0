pub mod Choice
pub mod Start
