pub mod Grammar
pub mod Names
pub mod Texts
pub mod Dots
pub mod Seen
pub mod Shapes
pub mod Reading
pub mod Laws
