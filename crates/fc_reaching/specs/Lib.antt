pub mod DefinitionsView
pub mod Firsts
pub mod Numbering
pub mod Reaching
pub mod Recursion
pub mod Remaining
