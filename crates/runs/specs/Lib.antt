-- What a reader believes, in document 01's order
pub mod Results
pub mod Programs
pub mod Reading
pub mod Showing
pub mod PuttingBack
pub mod Grounds
-- What the engine's own contracts speak of
pub mod Engine
-- What is proved of the rules
pub mod Theorems
