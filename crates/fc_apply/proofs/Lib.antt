pub mod Applied
pub mod CasesAround
pub mod Decls
pub mod InDefinitions
pub mod OfTheModule
