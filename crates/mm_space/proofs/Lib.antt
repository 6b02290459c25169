mod TextLemmas
mod GenTextLemmas
pub mod DigitTextLemmas
mod RowLemmas
pub mod KeptLemmas
mod SumSteps
pub mod Gathering
mod PreimageLemmas
mod HeadLemmas
mod EqualLemmas
mod EqualDigits
mod ReversedLemmas
mod PackLemmas
mod PackSteps
pub mod JoinRule
mod MarkLemmas
mod MarkedSteps
mod FaithfulLemmas
mod FormLemmas
mod JoinSteps
