pub mod Calls
pub mod Stepping
