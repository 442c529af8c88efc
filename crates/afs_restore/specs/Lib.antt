pub mod Reading
pub mod Parts
pub mod Filling
pub mod Restoring
pub mod Steps
pub mod ReadOn
