pub mod Blocks
pub mod Change
pub mod Placed
pub mod Retained
