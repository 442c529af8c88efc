pub mod Handling
pub mod Saving
pub mod Seen
pub mod Sending
