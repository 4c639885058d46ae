pub mod UnitNumbers
pub mod PieceLaws
pub mod ManyLaws
