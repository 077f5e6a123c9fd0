pub mod Deque
pub mod Rule
pub mod Views
