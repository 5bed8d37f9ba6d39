pub mod ErasedMentions
pub mod ReplaysMeant
