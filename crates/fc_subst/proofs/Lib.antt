pub mod Composed
pub mod Delayed
mod Lifting
mod Lists
mod Pieces
