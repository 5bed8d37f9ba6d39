pub mod Literals
pub mod Names
pub mod Plain
pub mod Printed
pub mod Steps
