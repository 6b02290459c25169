pub mod CopyLemmas
pub mod FrontLemmas
pub mod NameLemmas
pub mod NumberLemmas
pub mod PaddedLemmas
