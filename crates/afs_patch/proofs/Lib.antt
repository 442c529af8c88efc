mod Left
mod Names
mod Patched
mod Patches
