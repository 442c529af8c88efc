pub mod FileParts
pub mod NodeParts
pub mod Answering
pub mod Hosting
pub mod Boots
pub mod Walk
mod Worked
