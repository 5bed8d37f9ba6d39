pub mod Modules
pub mod Numbering
pub mod Refusing
pub mod Turning
