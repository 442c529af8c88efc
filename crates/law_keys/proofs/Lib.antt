pub mod Memories
pub mod Deciding
pub mod VolSeats
pub mod FileSeats
pub mod LocSeats
pub mod Hosts
pub mod EachRan
pub mod Walk
pub mod Answering
pub mod Sending
pub mod Asking
mod Worked
