pub mod Bulk
pub mod Replying
