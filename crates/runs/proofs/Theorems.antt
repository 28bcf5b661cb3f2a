-- What is proved of the rules and fails with a wrong definition. No definition outside this folder rests on it.
-- The conservation law, and demand 3 from it and from stability
pub mod Conservation
pub mod Stability
pub mod Acceptance
pub mod Demand3
pub mod SameView
pub mod OneMaster
pub mod FreshView
-- Values and lists of standings: bounds, cuts
pub mod Bounds
pub mod Cuts
