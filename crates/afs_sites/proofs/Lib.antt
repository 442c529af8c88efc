pub mod Servers
pub mod Copied
