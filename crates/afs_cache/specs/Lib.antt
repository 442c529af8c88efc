pub mod Managing
pub mod Acting
pub mod Serving
pub mod Wanted
pub mod Lasting
pub mod Locating
pub mod Rounds
