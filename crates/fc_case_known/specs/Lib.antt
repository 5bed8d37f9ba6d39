pub mod Alternatives
pub mod Found
pub mod Literals
pub mod Opening
pub mod Valid
pub mod Within
