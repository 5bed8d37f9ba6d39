pub mod Agreeing
mod WordSteps
