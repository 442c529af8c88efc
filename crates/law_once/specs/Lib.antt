pub mod Clients
pub mod Changes
