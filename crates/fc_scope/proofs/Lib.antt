pub mod Ties
pub mod Distances
pub mod Lookups
