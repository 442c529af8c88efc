pub mod Servers
pub mod Locks
pub mod Walk
pub mod Telling
pub mod ToldWalk
pub mod Giving
pub mod GivenWalk
mod GivenWorked
mod Worked
