mod NameLemmas
mod RankLemmas
mod SubsetLemmas
mod SlotLemmas
mod AssignmentLemmas
mod HoldsLemmas
pub mod MinorLemmas
pub mod ScopeLemmas
mod BuildLemmas
mod FamilyLemmas
pub mod ContractionLemmas
mod Examples
