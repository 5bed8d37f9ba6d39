mod Moved
mod Needs
