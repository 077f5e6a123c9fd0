pub mod Names
pub mod Rules
pub mod Grammar
pub mod Held
