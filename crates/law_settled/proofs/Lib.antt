pub mod ClientAnswers
pub mod CopyAnswers
pub mod Handled
pub mod Operations
pub mod Settling
pub mod VolLines
pub mod Following
pub mod SettleWalk
mod Worked
