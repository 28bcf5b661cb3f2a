-- Calls that do not meet the demands, nor our contracts.
pub mod Trials
