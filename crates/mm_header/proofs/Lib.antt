pub mod HeaderLemmas
pub mod KeptLemmas
pub mod FormulaLemmas
mod TreeLineLemmas
