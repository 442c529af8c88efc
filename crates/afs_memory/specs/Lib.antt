pub mod Called
pub mod Named
pub mod Numbered
pub mod Redoing
pub mod Redos
pub mod States
pub mod Telling
