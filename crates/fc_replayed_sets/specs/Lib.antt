pub mod Faithful
pub mod Replays
