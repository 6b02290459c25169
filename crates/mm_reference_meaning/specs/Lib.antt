pub mod Rows
pub mod Trees
pub mod Formulas
pub mod Evaluation
pub mod Asked
pub mod LeastSets
