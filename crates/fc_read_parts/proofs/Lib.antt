pub mod Lengths
pub mod Names
pub mod Ascii
pub mod Rows
pub mod Stars
