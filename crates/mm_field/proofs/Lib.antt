pub mod Tables
mod TableLemmas
mod StepLemmas
pub mod VectorLemmas
pub mod CombinationLemmas
pub mod PartLemmas
