pub mod Numbers
pub mod Handed
mod Heard
mod Lifted
mod Shortened
