pub mod BookRules
pub mod FileLaws
pub mod WalkLaws
