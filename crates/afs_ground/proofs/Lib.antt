mod Measures
mod Grounds
