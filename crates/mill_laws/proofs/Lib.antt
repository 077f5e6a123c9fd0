-- plans and trees
pub mod Groups
pub mod Canonical
pub mod GrowingNumbers
pub mod Legal
pub mod Ranked
pub mod Ranking
pub mod PlanLaws
pub mod Settle
pub mod Paths
pub mod Twin
pub mod TreeSize
pub mod TreeLaws
-- prices
pub mod Charges
pub mod Duality
pub mod Least
pub mod Slacks
pub mod Ascent
pub mod Sweep
pub mod PriceLaws
pub mod PricesWithin
-- logs
pub mod Mated
pub mod Carry
pub mod Law
pub mod LogLaws
-- runs
pub mod RecordedOnce
pub mod Merged
pub mod Thrift
pub mod RunLaws
-- starts
pub mod StartBound
