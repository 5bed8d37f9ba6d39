pub mod Bounded
mod EndsTold
mod Frames
pub mod HeadersKept
mod Joined
mod KindsTold
mod RowsTold
mod Within
