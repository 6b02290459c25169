-- Between code and definitions: what the state of a header makes of the lines that are left.
pub mod HeaderStates
pub mod TreeStates
