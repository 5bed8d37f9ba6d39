pub mod Both
pub mod Collecting
pub mod Keeping
