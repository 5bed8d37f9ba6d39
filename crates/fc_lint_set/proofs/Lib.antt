pub mod RightSides
pub mod SetForms
pub mod Told
