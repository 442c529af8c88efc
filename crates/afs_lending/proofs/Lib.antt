pub mod Behind
pub mod Lends
pub mod Returns
pub mod Written
