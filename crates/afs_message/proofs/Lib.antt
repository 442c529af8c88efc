pub mod Parts
pub mod Interfaces
pub mod Read
pub mod Sending
