pub mod Changes
pub mod Closings
pub mod CountedRelation
pub mod CountingLaws
pub mod Places
