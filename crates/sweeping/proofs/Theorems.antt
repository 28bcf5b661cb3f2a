-- What is proved of sweeping and fails with a wrong definition. No definition outside this folder rests on it.
pub mod Sound
pub mod Twice
