pub mod Bits
pub mod Spelled
pub mod Kept
pub mod Surveys
