pub mod Search
pub mod Carried
