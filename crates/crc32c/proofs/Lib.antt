pub mod Running
pub mod UnitLaws
