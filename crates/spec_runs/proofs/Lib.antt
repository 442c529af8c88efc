mod Unmade
pub mod Plain
mod AdminRuns
