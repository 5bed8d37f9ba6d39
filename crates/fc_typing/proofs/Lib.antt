pub mod BinderWords
pub mod EqualityLemmas
pub mod Imported
