pub mod Halving
pub mod Keys
