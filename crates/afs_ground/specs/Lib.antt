pub mod Sizes
pub mod Grounds
