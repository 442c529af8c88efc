pub mod Changing
pub mod Patching
