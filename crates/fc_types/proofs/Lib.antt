pub mod Arities
pub mod Building
pub mod ByNumber
pub mod FirstDeclared
pub mod FirstPuts
pub mod Owners
pub mod WordKeys
