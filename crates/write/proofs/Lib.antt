pub mod UnitsLaws
pub mod FindLaws
pub mod AnswerLaws
pub mod WriteLaws
pub mod GrowLaws
