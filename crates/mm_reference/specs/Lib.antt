pub mod Values
pub mod Types
pub mod Spaces
pub mod Sizes
