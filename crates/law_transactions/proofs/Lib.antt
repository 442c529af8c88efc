pub mod Transactions
pub mod BegunWalk
pub mod NumbersWalk
