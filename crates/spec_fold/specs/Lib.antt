pub mod Deeds
pub mod Fold
pub mod SetUps
pub mod Effects
pub mod Laws
pub mod Orders
