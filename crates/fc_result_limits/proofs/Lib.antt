pub mod Back
pub mod Bare
pub mod Blank
pub mod Deep
pub mod Renamed
pub mod Within
