pub mod MapLaws
pub mod EnterLaws
pub mod FillLaws
