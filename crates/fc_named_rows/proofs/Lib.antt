pub mod FormsSoFar
pub mod OfTheFirst
