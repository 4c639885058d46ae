pub mod CallLaws
pub mod ReadLaws
pub mod WriteLaws
pub mod ReadManyLaws
pub mod StretchesLaws
pub mod BatchLaws
pub mod StoreLaws
