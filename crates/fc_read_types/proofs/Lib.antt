pub mod Chains
pub mod FieldsRead
pub mod Lists
