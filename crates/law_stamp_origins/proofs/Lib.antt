pub mod Deciding
pub mod Storing
pub mod Walk
