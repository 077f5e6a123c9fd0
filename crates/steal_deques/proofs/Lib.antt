pub mod DequeKeeps
