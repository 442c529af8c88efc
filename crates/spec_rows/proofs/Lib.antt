pub mod Worked
pub mod Clients
pub mod LocWorked
pub mod LocRuns
