pub mod Reads
pub mod Checked
