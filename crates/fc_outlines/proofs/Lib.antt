pub mod Alike
pub mod AmongOutlines
pub mod HeadersAlone
pub mod RightSides
