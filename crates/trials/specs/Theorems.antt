-- The calls put to the test: computed cases, and calls that have to be rejected; more of these in proofs/Theorems.
-- Any call with our contracts meets the demands
pub mod Contracts
-- Computed: document 01's bench examples, a case of each reply, and cases of demand 3, of padded texts, of sweeps and of orders
pub mod Cases
pub mod Bench
pub mod EveryReply
pub mod Demand3Cases
pub mod PaddedCases
pub mod SweepCases
pub mod OrderCases
-- Sweeps that do not meet the demands, nor our contracts
pub mod SweepTrials
