pub mod Handling
pub mod Seen
pub mod Laws
