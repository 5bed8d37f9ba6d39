pub mod FormsDecide
pub mod SetRules
