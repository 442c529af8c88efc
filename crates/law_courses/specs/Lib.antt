pub mod Courses
pub mod Tasks
