pub mod Done
pub mod Found
pub mod Lists
pub mod Made
pub mod Numbers
pub mod Renewed
pub mod Told
