pub mod Among
pub mod Rows
pub mod Taking
