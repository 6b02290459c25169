pub mod RunCalls
pub mod RunLaws
pub mod RunsValue
pub mod RunsView
pub mod RunsCalls
pub mod Listing
