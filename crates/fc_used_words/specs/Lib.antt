pub mod Around
pub mod Scoped
pub mod Standing
pub mod Used
