-- What the theorems of proofs/Theorems rest on.
-- Ways down, lines in prefix order, and both together
pub mod Ways
pub mod Prefix
pub mod Sights
-- What reading does
pub mod Onward
pub mod Built
