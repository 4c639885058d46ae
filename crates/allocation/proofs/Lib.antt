pub mod SearchLaws
pub mod GroupLaws
pub mod SortLaws
pub mod RunLaws
pub mod FoundLaws
pub mod AnswerLaws
pub mod MarkLaws
