pub mod ExchangeLemmas
pub mod WeightLemmas
pub mod BesideLemmas
pub mod PlaceLemmas
pub mod KeptLemmas
pub mod StatesLemmas
pub mod EditLemmas
