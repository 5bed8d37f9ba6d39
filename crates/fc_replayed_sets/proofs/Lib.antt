mod AmongNames
pub mod FormedLeft
pub mod Forms
pub mod NoneLarger
pub mod Ordered
mod ReadFormed
pub mod ReplayedSets
mod WhatIsLeft
mod WordsLeft
mod WrittenHeaders
