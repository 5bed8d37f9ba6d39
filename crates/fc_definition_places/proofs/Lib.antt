pub mod FirstPuts
pub mod Found
pub mod Standing
pub mod Staying
pub mod WordKeys
