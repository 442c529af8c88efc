mod FewWords
pub mod Asked
mod Refused
