pub mod KnowingRows
pub mod NamelessChanges
pub mod NamelessFacts
pub mod NamelessPlaces
pub mod NamelessRows
pub mod RowPlaceLaws
