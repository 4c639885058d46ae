pub mod UnitLaws
pub mod OldLaws
pub mod CarryLaws
pub mod PlanFreeLaws
