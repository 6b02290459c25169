pub mod Rules
pub mod Queries
pub mod QueryValues
pub mod Header
pub mod State
