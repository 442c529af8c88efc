pub mod Laying
pub mod Opening
pub mod Rereading
pub mod Stands
pub mod Stores
pub mod Unfitting
pub mod VolumeFold
pub mod VolumeLaws
