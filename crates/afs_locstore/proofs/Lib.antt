mod Few
pub mod Listed
mod Pairs
mod Replies
mod Sites
mod Taking
