pub mod JoinLaws
pub mod StretchLaws
pub mod SingleLaws
pub mod FinishedLaws
pub mod MadeLaws
pub mod EndLaws
pub mod ExchangeLaws
