pub mod Best
pub mod BestRule
pub mod Meter
pub mod MeterRule
pub mod Views
