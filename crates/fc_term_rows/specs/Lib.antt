pub mod Facts
pub mod FactsMet
pub mod Heads
pub mod TermRowLaws
pub mod TermRows
