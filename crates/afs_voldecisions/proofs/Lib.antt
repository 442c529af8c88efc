pub mod Cloning
pub mod Deciding
pub mod Dumping
pub mod Forms
pub mod Judging
pub mod Restoring
pub mod Seeing
