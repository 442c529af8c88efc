mod Few
mod Listing
mod Scripts
mod SetUps
