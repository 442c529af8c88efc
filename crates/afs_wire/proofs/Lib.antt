mod Forward
mod Places
