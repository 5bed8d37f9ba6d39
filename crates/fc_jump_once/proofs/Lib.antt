pub mod Deep
mod Taken
