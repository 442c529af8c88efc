pub mod Courses
pub mod Answers
