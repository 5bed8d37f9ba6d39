pub mod Around
pub mod Counts
pub mod Told
pub mod ToldOfPoints
