pub mod SameLemmas
pub mod RepeatLemmas
mod PaddedLemmas
pub mod ScopeLemmas
pub mod SlotLemmas
