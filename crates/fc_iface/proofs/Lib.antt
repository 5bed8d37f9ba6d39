pub mod InterfacesFormed
pub mod Spaced
pub mod ReadDemands
pub mod ReadItems
pub mod ReadInterface
