mod Hints
mod Kept
mod Lowest
mod Places
