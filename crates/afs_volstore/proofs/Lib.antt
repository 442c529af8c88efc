pub mod Created
pub mod Fewer
pub mod Holds
