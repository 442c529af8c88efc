pub mod Kept
pub mod Vanishing
pub mod Grows
pub mod Ordered
pub mod Storing
pub mod Worked
pub mod Standing
