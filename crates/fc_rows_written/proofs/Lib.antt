pub mod ChangesWritten
pub mod CommutingWritten
pub mod RowsWritten
pub mod ShrinkingWritten
pub mod SurroundingsWritten
