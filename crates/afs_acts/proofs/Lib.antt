pub mod Walking
pub mod Numbers
pub mod Reaching
pub mod Fitting
pub mod Sites
pub mod Staying
pub mod Told
pub mod Coming
