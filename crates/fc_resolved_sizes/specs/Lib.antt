pub mod ResolvedSizes
