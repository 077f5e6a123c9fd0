pub mod BestKeeps
pub mod MeterKeeps
pub mod Views
