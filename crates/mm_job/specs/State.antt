-- Between code and definitions: what the state of a job makes of the lines that are left, and what it keeps.
pub mod Questions
pub mod Sessions
pub mod Blocks
pub mod Replies
pub mod Spending
pub mod Stages
pub mod JobStates
pub mod Feeding
pub mod Standing
pub mod Kept
