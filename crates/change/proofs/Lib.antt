pub mod StepLaws
pub mod BehindLaws
pub mod ChangeLaws
