pub mod Buffers
pub mod Groups
