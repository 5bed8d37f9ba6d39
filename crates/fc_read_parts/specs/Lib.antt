pub mod Lengths
pub mod Reading
pub mod Refusing
pub mod Seen
