pub mod Changes
pub mod Counting
pub mod Drafts
pub mod Drawing
pub mod Images
pub mod Planning
