pub mod Judging
pub mod Lambdas
pub mod Lengths
pub mod Steps
pub mod Turns
