pub mod Seated
