pub mod Turning
pub mod Shifting
pub mod Choices
pub mod KindTests
pub mod ServerLines
pub mod Copies
pub mod ServerSends
pub mod AdminSteps
pub mod LocSteps
pub mod ClientSteps
pub mod CopySteps
pub mod FirstVolumes
pub mod Walk
mod Worked
