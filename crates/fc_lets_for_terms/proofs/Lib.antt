mod Behind
pub mod Deeper
pub mod InOrder
pub mod Opened
mod Steps
