pub mod Definitions
pub mod Steps
