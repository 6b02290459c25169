pub mod Agreement
pub mod HeaderLaws
pub mod AnswerLaws
pub mod TreeLaws
pub mod EditLaws
pub mod MinorLaws
