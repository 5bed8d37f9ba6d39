pub mod Constructed
pub mod Steps
