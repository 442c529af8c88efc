mod Loops
pub mod Matching
mod Walked
