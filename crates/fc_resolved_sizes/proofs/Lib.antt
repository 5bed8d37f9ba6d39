pub mod AsLarge
pub mod WithinLimits
