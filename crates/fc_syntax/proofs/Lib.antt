pub mod Lexing
pub mod NameWords
pub mod Snoc
pub mod View
mod WordTables
