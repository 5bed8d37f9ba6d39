pub mod CaseExamples
pub mod ExampleTerms
pub mod Examples
pub mod ExamplesHold
