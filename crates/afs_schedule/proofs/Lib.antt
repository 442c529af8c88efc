mod Lowest
mod Taken
mod Drained
mod Restarted
