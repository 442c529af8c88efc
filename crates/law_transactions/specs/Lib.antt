pub mod Begun
pub mod Numbers
