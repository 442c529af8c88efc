pub mod AtFirst
pub mod AtOnce
pub mod AtSetUp
pub mod Called
pub mod Files
pub mod Led
