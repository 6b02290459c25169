pub mod AtomLemmas
pub mod IndLemmas
pub mod SpaceTableLemmas
mod PackedLemmas
