pub mod Commands
pub mod Asking
pub mod Numbers
pub mod Plain
