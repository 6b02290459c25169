pub mod SetLemmas
pub mod ValueLemmas
pub mod OccurrenceLemmas
pub mod BagLemmas
pub mod GrowthLemmas
pub mod ChosenLemmas
mod Examples
