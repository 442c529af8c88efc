pub mod Sent
pub mod Behind
pub mod Heard
pub mod Held
pub mod Numbers
pub mod Timed
pub mod Served
