pub mod Atoms
pub mod Spaces
pub mod Terms
pub mod OneAtom
