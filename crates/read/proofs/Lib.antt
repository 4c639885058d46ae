pub mod HandedLaws
pub mod RangeLaws
pub mod GivesLaws
