pub mod Fields
pub mod Streams
mod Restoring
mod Edits
mod Since
mod Dumpable
pub mod Feeding
pub mod Worked
