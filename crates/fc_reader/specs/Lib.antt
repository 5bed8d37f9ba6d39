pub mod Halting
pub mod Nested
pub mod Outcomes
pub mod Places
pub mod Refusals
