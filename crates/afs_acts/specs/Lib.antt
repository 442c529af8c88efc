pub mod Acts
pub mod Walks
pub mod Ways
pub mod Needs
pub mod Named
pub mod Located
