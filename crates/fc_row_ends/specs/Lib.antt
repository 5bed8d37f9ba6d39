pub mod Ending
pub mod Growth
