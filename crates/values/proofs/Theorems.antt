-- What is proved of values and standings and fails with a wrong definition. No definition outside this folder rests on it.
pub mod MergeLaws
pub mod Copies
pub mod Edits
pub mod Gathering
pub mod WordLaws
