pub mod XorLaws
pub mod RegisterLaws
pub mod Division
pub mod TableRule
