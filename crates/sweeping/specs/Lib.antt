-- What a reader believes: which lines go, the swept master and the new numbers; and the request's sentences
pub mod Sweeping
pub mod Demands
-- What the engine's own contracts speak of
pub mod Engine
-- What is proved of these
pub mod Theorems
