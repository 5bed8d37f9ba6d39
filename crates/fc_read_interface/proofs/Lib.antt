pub mod Collected
pub mod Depths
pub mod Wholes
