pub mod LogsFormed
mod PartNumbers
mod Pieces
mod StepsFormed
