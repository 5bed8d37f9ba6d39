pub mod FormsLint
pub mod FoundAmong
mod NamesOffered
pub mod SetsAre
