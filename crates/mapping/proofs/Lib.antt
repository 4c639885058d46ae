pub mod EntryLaws
pub mod StretchLaws
pub mod HeldLaws
pub mod SlotLaws
pub mod LookupLaws
