pub mod Draws
pub mod SampleTree
pub mod SampleText
pub mod Summary
