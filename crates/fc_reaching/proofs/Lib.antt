mod FromRoots
mod Listed
mod Mentioning
mod Numbered
mod Reached
