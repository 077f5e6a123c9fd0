pub mod Runs
pub mod Ranges
pub mod Judging
pub mod FieldsInTurn
pub mod Repeats
pub mod Stages
pub mod Exact
pub mod Printed
