pub mod Nodes
pub mod Fids
pub mod Keyed
pub mod Messages
pub mod Names
pub mod Texts
pub mod Places
pub mod Octets
