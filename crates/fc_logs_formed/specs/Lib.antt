pub mod LogsFormed
