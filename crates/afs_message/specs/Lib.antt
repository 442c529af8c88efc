pub mod Spelled
pub mod Sending
