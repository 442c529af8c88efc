pub mod PlainCopies
pub mod Sited
mod CopyWorked
