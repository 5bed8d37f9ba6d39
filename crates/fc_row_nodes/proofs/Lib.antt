mod AtOnce
pub mod Alternatives
pub mod Gains
pub mod Jumps
pub mod Lets
pub mod Made
pub mod Points
mod PutIn
pub mod Replaced
pub mod Within
mod WordsCounted
