pub mod Joins
pub mod Rows
pub mod Sites
