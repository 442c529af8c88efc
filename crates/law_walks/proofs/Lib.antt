pub mod EachKind
pub mod Seats
pub mod FileSends
pub mod VolDecides
pub mod VolSends
pub mod ServerSends
pub mod LocSends
pub mod AdminSends
pub mod ClientSends
pub mod CopySends
pub mod AllMessages
pub mod Senders
pub mod Places
mod Worked
