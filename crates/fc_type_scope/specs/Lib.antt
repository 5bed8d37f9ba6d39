pub mod Behind
pub mod EndViews
pub mod Refusals
pub mod Scopes
