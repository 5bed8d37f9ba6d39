pub mod Building
pub mod GroupSteps
pub mod InsideGroups
pub mod WordSteps
