pub mod LocalsTold
pub mod NamesTold
pub mod PlacedRows
pub mod RowMeaningLaws
pub mod SharedRights
