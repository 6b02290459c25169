pub mod Tokens
pub mod Grammar
pub mod Canonical
pub mod Answers
pub mod Parser
pub mod ParserValues
pub mod PartsView
