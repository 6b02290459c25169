pub mod Hashing
pub mod Fields
pub mod LineForm
