pub mod Phase
pub mod Steps
pub mod Taking
