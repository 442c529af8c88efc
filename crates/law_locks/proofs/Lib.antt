pub mod Drawing
pub mod Places
pub mod Asking
pub mod Gifts
pub mod Serving
pub mod Walk
