pub mod FormulaCode
pub mod SessionValue
pub mod KeptTypes
pub mod Edits
pub mod Answers
pub mod SessionView
