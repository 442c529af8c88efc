mod Faults
mod Found
mod Places
