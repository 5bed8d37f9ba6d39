pub mod LintedAreScoped
pub mod Testing
