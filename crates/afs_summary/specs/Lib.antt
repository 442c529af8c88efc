pub mod Counting
pub mod Summary
