pub mod OldCalls
pub mod Surveyed
pub mod Bringing
pub mod Knowing
pub mod Acting
pub mod Serving
pub mod Rising
pub mod Surveying
pub mod Asked
mod Worked
