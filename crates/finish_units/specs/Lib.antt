pub mod Units
pub mod Carry
