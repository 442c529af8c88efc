pub mod Folding
pub mod Folds
pub mod Opening
pub mod Rereading
pub mod Sound
pub mod Stores
pub mod Waiting
pub mod Words
