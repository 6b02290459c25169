pub mod Comparing
pub mod Bases
pub mod Joining
pub mod JoinCache
pub mod Ordering
pub mod Dependencies
pub mod Images
pub mod WholeSpaces
