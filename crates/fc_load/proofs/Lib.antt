pub mod Laws
pub mod NextFile
pub mod OneFiles
pub mod SoFar
