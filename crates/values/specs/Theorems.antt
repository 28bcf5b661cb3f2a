-- What is proved of values and standings. No definition outside this folder rests on it.
pub mod Copies
pub mod Items
pub mod Forests
pub mod Extents
