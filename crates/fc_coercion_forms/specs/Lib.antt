pub mod Axioms
pub mod Foralls
pub mod Kinded
pub mod Parts
pub mod Splits
