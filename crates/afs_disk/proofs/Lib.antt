mod Painting
mod Remembered
mod Unwinding
