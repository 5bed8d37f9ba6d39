pub mod Optimised
pub mod Phases
