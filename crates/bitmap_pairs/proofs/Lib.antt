pub mod PairLaws
pub mod DifferenceLaws
