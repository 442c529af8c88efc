pub mod Flagged
pub mod Looking
pub mod Deciding
