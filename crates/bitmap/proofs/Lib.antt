pub mod BitLaws
pub mod MapLaws
