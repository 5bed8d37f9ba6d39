pub mod Dead
pub mod DeadIn
