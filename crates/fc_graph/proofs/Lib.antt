mod Certified
mod Checked
pub mod Searching
