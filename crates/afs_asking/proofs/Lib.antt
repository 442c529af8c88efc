pub mod Calling
pub mod Telling
pub mod Walking
