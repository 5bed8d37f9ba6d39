pub mod SetsReplayed
