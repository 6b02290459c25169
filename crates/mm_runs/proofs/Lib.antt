pub mod CallLemmas
pub mod RunsLemmas
pub mod ListingLemmas
