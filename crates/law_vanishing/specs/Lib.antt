pub mod Deletions
pub mod Vanishing
