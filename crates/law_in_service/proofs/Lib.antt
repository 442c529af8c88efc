pub mod Strays
pub mod Open
pub mod Believed
pub mod Ending
pub mod Worked
