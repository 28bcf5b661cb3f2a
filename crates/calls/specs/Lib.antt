-- What a reader believes: the order of judging, what a call leaves, and the three demands
pub mod Judging
pub mod Outcomes
pub mod Demands
-- and the call sweep, with what its request asks
pub mod Sweeping
pub mod SweepDemands
-- What the engine's own contracts speak of; the number and the place of each refusal
pub mod Engine
pub mod Refusals
-- What is proved of these
pub mod Theorems
