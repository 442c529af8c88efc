pub mod Finding
pub mod First
pub mod Released
pub mod Spelling
pub mod Standing
pub mod Steps
pub mod Turning
pub mod Parted
