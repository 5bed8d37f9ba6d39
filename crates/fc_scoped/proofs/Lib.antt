mod Counting
mod Declared
pub mod LintedNames
mod Parameters
pub mod Scoping
pub mod Tested
