pub mod Behind
pub mod Lending
pub mod Outside
pub mod Parts
