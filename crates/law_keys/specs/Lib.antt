pub mod Ran
pub mod Once
pub mod Replied
pub mod Asked
