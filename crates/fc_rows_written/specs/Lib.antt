pub mod RowsWritten
