-- What a reader believes
pub mod Values
pub mod Standings
-- What the engine's own contracts speak of
pub mod Engine
-- What is proved of these
pub mod Theorems
