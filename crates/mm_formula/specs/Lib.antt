pub mod Variables
pub mod VarFields
pub mod Repeats
pub mod Syntax
pub mod Scope
pub mod Binders
