pub mod Kept
pub mod Meaning
pub mod PutIn
pub mod ScopeSteps
