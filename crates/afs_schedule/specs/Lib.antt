pub mod Schedules
pub mod Named
pub mod Taking
pub mod Delivers
pub mod Settled
