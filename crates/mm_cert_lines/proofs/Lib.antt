pub mod SameLists
pub mod BasisLemmas
