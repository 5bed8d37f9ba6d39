mod Lets
mod Moved
mod Named
mod Reached
