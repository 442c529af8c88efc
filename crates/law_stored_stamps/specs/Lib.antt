pub mod Past
pub mod Surveys
