pub mod HalvingLaws
pub mod KeyLaws
pub mod Cases
