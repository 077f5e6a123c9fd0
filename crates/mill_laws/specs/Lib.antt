pub mod RankLaws
pub mod PlanLaws
pub mod TreeLaws
pub mod PriceLaws
pub mod LogLaws
pub mod RunLaws
pub mod Examples
