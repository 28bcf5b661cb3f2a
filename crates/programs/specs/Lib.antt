-- What a reader believes
pub mod SoundPrograms
-- What is proved of it
pub mod Theorems
