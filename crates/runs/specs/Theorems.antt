-- What is proved of the rules, but for what fails with a wrong definition: that stands in proofs/Theorems. No definition outside these
-- folders rests on it.
-- Shared: the clauses with their sub-runs left open; a run taken apart; same sub-runs, same run
pub mod Combinators
pub mod Inversion
pub mod Congruence
-- A run of the code, by what it answered
pub mod RunAnswers
-- Towards demand 3
pub mod Grounded
pub mod ViewLines
pub mod CountedViews
-- Lists of standings: their lengths
pub mod Lengths
-- Reading: by the one table, and said of trees
pub mod Table
pub mod ByTable
pub mod Soundness
pub mod WholePrograms
pub mod OneEnd
-- Computed
pub mod Cases
