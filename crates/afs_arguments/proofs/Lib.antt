mod Leaf
mod Words
mod Walks
mod Made
mod Takes
mod Top
mod Asking
mod Worked
