pub mod Plan
pub mod Steps
pub mod Given
pub mod Arguments
pub mod Answers
