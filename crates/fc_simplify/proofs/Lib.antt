mod Exchanged
mod First
mod InFirst
mod InRuns
mod Keeping
pub mod Kept
pub mod Logs
mod Looking
mod Marked
mod Next
mod OneRound
mod Quieted
mod Taken
mod Twice
mod Words
