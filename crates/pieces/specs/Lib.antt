pub mod Pieces
pub mod InHand
