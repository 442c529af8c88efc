pub mod Drawing
pub mod Leading
pub mod Knowing
pub mod Acting
pub mod Making
pub mod Databases
pub mod Walk
