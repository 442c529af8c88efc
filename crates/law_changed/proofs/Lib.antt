pub mod Asked
pub mod Changing
pub mod Walk
mod Worked
