pub mod GridLemmas
pub mod CacheLemmas
pub mod MemoLemmas
pub mod FitLemmas
pub mod KeyLemmas
mod NumberedLemmas
