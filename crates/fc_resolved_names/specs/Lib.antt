pub mod ResolvedNames
