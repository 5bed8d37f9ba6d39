pub mod Distinct
pub mod Found
pub mod InOrder
pub mod Mentioned
pub mod Ready
