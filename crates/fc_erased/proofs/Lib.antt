pub mod ErasedBinders
pub mod ErasedPut
pub mod ErasedReplacements
pub mod KeptErasures
pub mod WrittenPut
