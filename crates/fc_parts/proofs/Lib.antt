pub mod Changes
pub mod PartRules
pub mod Parted
pub mod RowsAtParts
pub mod Tests
