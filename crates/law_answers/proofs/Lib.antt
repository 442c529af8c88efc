pub mod Places
pub mod Failures
pub mod Turns
pub mod Rows
pub mod Walk
mod Worked
