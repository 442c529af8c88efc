pub mod Creating
pub mod Deciding
pub mod Handling
pub mod Saving
pub mod Seen
