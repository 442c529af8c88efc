pub mod GivenNumbers
pub mod MadeEntries
