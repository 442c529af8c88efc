pub mod Lines
pub mod Grips
