mod ReadTreeLemmas
pub mod DigitLemmas
pub mod NumeralLemmas
pub mod ReaderLemmas
pub mod ReadingLemmas
pub mod SpacedLemmas
pub mod TextLineLemmas
pub mod WrittenLineLemmas
pub mod WrittenTreeLemmas
