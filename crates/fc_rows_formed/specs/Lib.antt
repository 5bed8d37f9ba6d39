pub mod RowsFormed
