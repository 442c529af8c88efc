pub mod Granting
pub mod Owing
pub mod Gathered
pub mod Found
