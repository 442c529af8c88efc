pub mod Deeds
pub mod Numbered
pub mod Shelving
pub mod Words
