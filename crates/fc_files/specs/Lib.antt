pub mod Outside
pub mod Entries
pub mod Counts
pub mod Calls
pub mod Streams
pub mod Host
pub mod Answers
pub mod Transfers
