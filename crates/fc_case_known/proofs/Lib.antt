pub mod Deep
mod Opened
mod Parts
mod Rows
