pub mod Built
pub mod Codes
pub mod Families
pub mod FirstDeclared
pub mod Listed
pub mod ModuleViews
pub mod TableViews
pub mod Tables
