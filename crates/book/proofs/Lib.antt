pub mod SearchLaws
pub mod HalvesLaws
pub mod OrderLaws
pub mod SpliceLaws
pub mod InsertLaws
