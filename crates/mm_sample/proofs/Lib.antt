mod OperatorLemmas
mod ChainLemmas
mod NameLemmas
mod FaultLemmas
mod HeaderLemmas
mod EditLemmas
mod JobLemmas
mod LineLemmas
mod ShortLemmas
pub mod WrittenLemmas
