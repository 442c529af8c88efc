mod Appended
pub mod Broken
mod Crash
mod Mended
pub mod Moments
mod Order
mod Records
mod Sound
