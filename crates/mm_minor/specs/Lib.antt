pub mod MinorFormula
pub mod Minors
pub mod Contractions
