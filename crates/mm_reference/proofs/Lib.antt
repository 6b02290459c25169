pub mod OrderLemmas
pub mod InsertionLemmas
pub mod ReducedLemmas
pub mod SizeLemmas
