pub mod Needed
pub mod Numbered
pub mod Picks
pub mod Planned
pub mod Turned
