pub mod NamesDeclared
pub mod NeededClosed
pub mod StepsKept
