pub mod Owing
pub mod FileTurns
pub mod VolTurns
pub mod NodeSteps
pub mod Calm
pub mod Walk
mod Worked
