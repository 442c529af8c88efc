pub mod Buffered
pub mod Memory
pub mod Outside
