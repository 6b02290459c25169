pub mod TokenLemmas
pub mod Precedence
pub mod ReadsAllLemmas
pub mod ReadsOnlyLemmas
pub mod TextLemmas
pub mod CanonicalLemmas
pub mod PartsLemmas
