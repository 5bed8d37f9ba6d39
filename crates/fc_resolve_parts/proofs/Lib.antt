pub mod Building
pub mod ListSteps
mod ParamWords
pub mod WordSteps
