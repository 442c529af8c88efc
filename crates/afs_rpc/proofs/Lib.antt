pub mod Taken
pub mod Pieces
