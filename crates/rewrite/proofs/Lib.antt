pub mod PlanLaws
pub mod LoopLaws
pub mod OldLaws
pub mod GivenLaws
pub mod LaidLaws
pub mod UnitLaws
pub mod SliceLaws
pub mod WalkLaws
