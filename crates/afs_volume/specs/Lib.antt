pub mod Assembling
pub mod Counting
pub mod Given
pub mod Giving
pub mod Listed
pub mod Naming
pub mod Seen
pub mod Taking
