pub mod Kinds
pub mod Sends
pub mod Messages
