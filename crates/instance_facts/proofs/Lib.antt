pub mod HeavyOnce
pub mod Charged
