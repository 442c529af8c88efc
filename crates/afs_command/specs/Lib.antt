pub mod Spans
pub mod Forms
pub mod Statuses
pub mod Reading
