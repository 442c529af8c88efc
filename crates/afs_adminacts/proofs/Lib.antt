pub mod Moves
pub mod Releases
pub mod Acted
