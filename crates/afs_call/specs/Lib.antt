pub mod Callers
pub mod Admitting
