pub mod Stepping
pub mod Rising
pub mod Becoming
pub mod Breaking
pub mod Handled
