pub mod Delivered
pub mod Pieces
