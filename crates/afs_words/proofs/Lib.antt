pub mod FirstPart
pub mod Escapes
