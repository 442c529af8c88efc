pub mod Held
pub mod Redone
pub mod Told
