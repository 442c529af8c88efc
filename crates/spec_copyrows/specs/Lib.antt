pub mod Sites
pub mod CopyRow
pub mod PlainCopies
