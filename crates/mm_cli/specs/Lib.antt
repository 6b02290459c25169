pub mod Words
pub mod Runs
pub mod Going
pub mod Answers
pub mod Whole
pub mod Owed
pub mod Spending
pub mod Minors
