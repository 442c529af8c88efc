pub mod Places
pub mod PlaceLends
pub mod Seating
pub mod Happening
pub mod Ready
pub mod Meaning
