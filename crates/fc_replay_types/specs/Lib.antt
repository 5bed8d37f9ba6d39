pub mod ReplaysKept
