pub mod FairImports
pub mod KeptMeaningLaws
pub mod MeaningKept
pub mod OnePlace
pub mod PlaceRows
pub mod SignatureTruth
