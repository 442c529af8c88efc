pub mod Stamps
pub mod Told
pub mod Given
