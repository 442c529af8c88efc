pub mod Attached
pub mod Begun
pub mod Folding
pub mod FoldsOn
pub mod Kept
mod Reread
mod Waiting
