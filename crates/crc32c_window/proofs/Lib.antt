pub mod HistoryLaws
pub mod Multiple
pub mod LatestLaws
pub mod WindowLaws
