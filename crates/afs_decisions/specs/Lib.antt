pub mod Deciding
pub mod Several
