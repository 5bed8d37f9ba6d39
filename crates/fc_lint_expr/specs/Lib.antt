pub mod Cases
pub mod Lambdas
pub mod Lists
