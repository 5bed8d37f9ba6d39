pub mod AxiomEnds
pub mod AxiomFits
pub mod AxiomSides
pub mod Beside
pub mod Growing
