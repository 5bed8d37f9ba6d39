pub mod Building
pub mod Entered
