mod Counted
mod Framed
mod Kept
mod Sizes
mod Told
mod Unasked
