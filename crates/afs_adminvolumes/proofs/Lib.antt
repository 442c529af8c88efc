pub mod Creates
pub mod Copies
pub mod Removes
pub mod Recovers
