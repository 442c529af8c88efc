pub mod Acts
pub mod Worked
pub mod Cells
