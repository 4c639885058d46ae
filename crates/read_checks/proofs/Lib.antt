pub mod PairLaws
pub mod NumberLaws
pub mod StretchLaws
pub mod CheckedLaws
