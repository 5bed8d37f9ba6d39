pub mod AltViews
pub mod GivenViews
pub mod Meetings
