pub mod LineBytes
pub mod Tokens
pub mod Lines
pub mod Streams
pub mod Places
pub mod Numbers
pub mod Framers
pub mod Fronts
