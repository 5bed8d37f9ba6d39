pub mod Free
pub mod Bound
pub mod Keys
