pub mod OpValue
pub mod OpView
pub mod OpFaults
pub mod Tables
