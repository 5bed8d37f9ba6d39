pub mod Among
pub mod Apart
pub mod ScopeWords
pub mod Tied
pub mod WordsAt
