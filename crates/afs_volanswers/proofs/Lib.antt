pub mod Plain
pub mod Judged
pub mod Listed
pub mod Looked
