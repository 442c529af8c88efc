pub mod PlaceStamps
pub mod Acts
pub mod Walk
mod Worked
