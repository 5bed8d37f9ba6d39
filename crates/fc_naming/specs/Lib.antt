pub mod BinderWords
pub mod Declarations
pub mod GroupWords
pub mod Groups
pub mod Named
pub mod Taken
