pub mod BlocksLaws
pub mod ChangeLaws
pub mod EntryLaws
pub mod PartLaws
pub mod RetainedLaws
pub mod RunLaws
pub mod UnitsLaws
