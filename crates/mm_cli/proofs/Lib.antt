pub mod EndedLemmas
pub mod MinorLemmas
pub mod OutputLemmas
pub mod RunLemmas
pub mod SpendingLemmas
pub mod StepLemmas
pub mod WholeLemmas
pub mod WriteLemmas
