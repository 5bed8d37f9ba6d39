pub mod Interfaces
pub mod Products
