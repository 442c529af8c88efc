pub mod Pending
pub mod ClientAsks
pub mod CopyAsks
pub mod Asking
pub mod OnceTold
mod Worked
