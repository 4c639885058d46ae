pub mod ListLaws
pub mod ClipLaws
