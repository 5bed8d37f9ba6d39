pub mod EachText
pub mod Parting
pub mod Walking
pub mod Wholes
