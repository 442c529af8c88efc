pub mod Places
pub mod Dirs
pub mod Reads
