pub mod Letters
pub mod Calls
pub mod Cells
pub mod Memos
pub mod Numbered
pub mod Lists
