pub mod Digits
pub mod FieldLaws
pub mod Vectors
