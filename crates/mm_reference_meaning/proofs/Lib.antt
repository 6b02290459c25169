pub mod SpanLemmas
pub mod ColumnLemmas
pub mod AssignmentLemmas
pub mod QuantifierLemmas
pub mod WeightLemmas
