pub mod Asked
pub mod BinderNumbers
pub mod CalledJudged
pub mod ConstructorFits
pub mod Givens
pub mod Meets
