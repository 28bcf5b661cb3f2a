-- What a reader believes: the lines of files, and what replies 2, 4, 5 and 8 to 10 ask of them
pub mod Hex
pub mod Lines
pub mod Texts
pub mod Nodes
pub mod Numbers
pub mod Entries
pub mod Files
pub mod Verdicts
pub mod Masters
pub mod Views
pub mod Writing
-- What the engine's own contracts speak of
pub mod Engine
-- What is proved of these
pub mod Theorems
