pub mod Headers
pub mod Outlines
pub mod RightSides
