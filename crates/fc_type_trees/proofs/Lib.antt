pub mod NumberKinds
pub mod Shown
