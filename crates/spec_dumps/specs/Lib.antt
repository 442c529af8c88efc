pub mod Fields
pub mod Dumps
pub mod Streams
pub mod Clones
pub mod Restores
pub mod Feeding
pub mod Laws
