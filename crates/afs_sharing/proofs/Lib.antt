pub mod Drawn
pub mod Known
pub mod Repeating
