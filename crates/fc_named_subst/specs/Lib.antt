pub mod Scopes
pub mod Substituted
pub mod Tasks
