pub mod Kept
pub mod Seats
pub mod Still
