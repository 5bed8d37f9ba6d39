pub mod SetsLint
mod ToldWords
