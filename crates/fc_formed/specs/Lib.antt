pub mod FormedTrees
pub mod Laws
