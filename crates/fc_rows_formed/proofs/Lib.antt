mod Answered
mod ChangesFormed
mod CoercionChangesFormed
mod CoercionsFormed
mod CommutingFormed
pub mod DeclarationsFormed
mod EndsFormed
mod ExpressionsFormed
pub mod HeadersFormed
mod PutFormed
mod ReadOffFormed
pub mod RowsFormed
mod ShrinkingFormed
mod SurroundingsFormed
mod TypesFormed
