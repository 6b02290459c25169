pub mod Echelons
pub mod Eliminate
pub mod Decide
pub mod Padded
pub mod Coordinates
pub mod ReducedEchelon
pub mod Subspaces
pub mod Sums
