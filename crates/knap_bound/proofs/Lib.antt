pub mod ItemsLetIn
pub mod ItemsSorted
pub mod SlabGains
pub mod LaterOrders
pub mod JoinedOrders
