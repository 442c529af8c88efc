pub mod Seated
mod Waits
mod Heard
mod Lifted
