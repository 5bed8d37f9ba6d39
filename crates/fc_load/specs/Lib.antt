pub mod Loading
pub mod Amounts
pub mod OneFile
pub mod Answers
