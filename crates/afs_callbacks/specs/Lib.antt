pub mod Answering
pub mod Besides
pub mod Hearing
pub mod Saving
pub mod States
pub mod Waiting
