mod AtPlaces
mod CaseRows
mod Counted
mod Descents
mod Drops
mod Gains
mod LetRows
pub mod Modules
pub mod Numbers
mod Put
mod PutIn
mod Rises
mod SimpleRows
