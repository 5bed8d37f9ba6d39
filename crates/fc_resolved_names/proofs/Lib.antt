pub mod Distinct
pub mod NamesHold
pub mod Obeying
pub mod Scoped
