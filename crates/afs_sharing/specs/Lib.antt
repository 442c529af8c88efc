pub mod Callers
pub mod Lasting
pub mod Stores
