pub mod OtherForms
pub mod Parts
