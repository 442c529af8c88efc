pub mod Seating
pub mod Happening
pub mod Ready
