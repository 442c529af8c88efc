pub mod Knows
pub mod Accepts
