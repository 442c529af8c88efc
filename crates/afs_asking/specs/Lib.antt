pub mod Asking
pub mod Looking
pub mod Telling
pub mod Wanted
