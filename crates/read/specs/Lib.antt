pub mod Range
pub mod Gives
