pub mod IndependenceSteps
pub mod ValidOps
pub mod TableLemmas
pub mod OpEquality
