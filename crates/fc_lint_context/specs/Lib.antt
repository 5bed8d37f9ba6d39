pub mod CoercionViews
pub mod ContextViews
pub mod DeclaredViews
pub mod JoinViews
pub mod LocalViews
