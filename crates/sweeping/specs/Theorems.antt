-- What is proved of sweeping. No definition outside this folder rests on it.
pub mod Removed
pub mod Counting
pub mod Numbers
pub mod Demands
pub mod Decided
