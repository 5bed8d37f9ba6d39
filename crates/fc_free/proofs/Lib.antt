mod Among
mod BoundWords
mod Gathered
mod Kept
mod Sought
