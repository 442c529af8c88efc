pub mod Few
pub mod Indexed
pub mod Kept
pub mod Listings
pub mod LocFold
pub mod LocSound
pub mod Orders
pub mod States
