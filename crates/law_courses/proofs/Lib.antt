pub mod Growing
pub mod Asking
pub mod Going
pub mod Walk
pub mod Continuing
pub mod OneTask
pub mod Runs
