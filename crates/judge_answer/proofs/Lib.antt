pub mod Numbered
mod PlanSaid
pub mod SaidOnce
mod Tabled
