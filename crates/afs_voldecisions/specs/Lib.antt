pub mod Numbering
pub mod Replies
pub mod Verdicts
