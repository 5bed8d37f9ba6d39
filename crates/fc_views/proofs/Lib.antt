pub mod CoercionsInView
pub mod Contexts
pub mod DeclarationsInView
pub mod ExpressionsInView
pub mod NamesInView
pub mod TypesInView
pub mod ViewsClosed
