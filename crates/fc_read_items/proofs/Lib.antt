pub mod Lists
pub mod Others
pub mod Signatures
pub mod Starts
