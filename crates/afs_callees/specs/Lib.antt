pub mod Called
pub mod Few
pub mod Telling
