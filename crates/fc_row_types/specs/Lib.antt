pub mod DefinitionsDropped
pub mod LintKept
pub mod TypesKept
