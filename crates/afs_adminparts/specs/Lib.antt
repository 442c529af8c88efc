pub mod Errands
pub mod Fitting
