pub mod Bodies
pub mod Deeds
pub mod Reading
