pub mod BlockLaws
pub mod AnswerLaws
pub mod InspectLaws
pub mod FoundLaws
