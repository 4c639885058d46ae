pub mod Change
pub mod Flat
pub mod LookUp
pub mod Room
pub mod Books
pub mod Out
pub mod Planned
pub mod Tests
