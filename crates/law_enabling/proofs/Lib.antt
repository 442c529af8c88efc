pub mod Opening
pub mod Telling
pub mod Alone
mod Worked
