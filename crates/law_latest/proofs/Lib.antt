pub mod ClientLines
pub mod CopyLines
pub mod AdminLines
pub mod LocLines
pub mod ServerLines
pub mod Changing
pub mod Order
mod Worked
