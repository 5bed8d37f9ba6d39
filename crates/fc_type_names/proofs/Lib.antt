pub mod Meanings
pub mod Seen
pub mod Shown
