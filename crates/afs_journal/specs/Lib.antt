pub mod Left
pub mod Log
pub mod Records
pub mod Found
pub mod Words
