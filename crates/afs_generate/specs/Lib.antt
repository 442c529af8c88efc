pub mod Generated
pub mod Cells
