-- What is proved of the calls, but for what fails with a wrong definition: that stands in proofs/Theorems. No definition outside these
-- folders rests on it.
-- What a program shows of a master comes from it
pub mod Origins
-- From a judging that settles to a call's outcome
pub mod Settled
-- The theorems on bytes
pub mod Unique
pub mod ReadingEnough
-- Towards demand 3
pub mod ViewEdits
pub mod ShownNumbers
pub mod EditedLines
pub mod ClashSearch
