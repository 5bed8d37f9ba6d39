pub mod Behind
pub mod Environments
pub mod Equality
pub mod Told
pub mod Wording
