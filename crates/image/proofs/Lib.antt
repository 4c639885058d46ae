pub mod BlockLaws
pub mod OutLaws
pub mod UnitLaws
pub mod PutLaws
