pub mod Found
pub mod PartsAt
