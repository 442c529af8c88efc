pub mod Lengths
pub mod Finding
pub mod Reach
pub mod Names
pub mod Halves
pub mod Fits
