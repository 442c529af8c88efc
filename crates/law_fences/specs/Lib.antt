pub mod Claims
pub mod Fences
