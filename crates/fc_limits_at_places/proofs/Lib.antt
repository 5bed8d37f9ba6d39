pub mod AtPlaces
pub mod InModules
pub mod Unworded
