pub mod Mapped
pub mod Answer
pub mod Runs
