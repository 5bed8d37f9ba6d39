pub mod Headers
pub mod InPlace
pub mod KeptOut
pub mod MainExpressions
pub mod SetsMeant
pub mod Telling
pub mod Written
