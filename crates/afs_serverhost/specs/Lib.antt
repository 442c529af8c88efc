pub mod Standing
pub mod Seats
pub mod Serving
pub mod Starting
pub mod Seated
