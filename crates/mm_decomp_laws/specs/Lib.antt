pub mod Ranks
pub mod RowSpaces
pub mod DualLaws
pub mod WrittenHeaders
pub mod QueriesAfterHeaders
