-- What is proved of the calls and fails with a wrong definition. No definition outside this folder rests on it.
-- A judging taken apart; an outcome by its three ways; what a program shows of a master can be written
pub mod Judged
pub mod Replies
pub mod FreshLines
-- The theorems on bytes
pub mod Returned
pub mod FreshView
pub mod Refusals
-- Our calls meet the demands
pub mod Demand12
pub mod SavedLines
pub mod Demand3
pub mod OrdersKept
-- The call sweep: its contract decides, and it is what its request asks; no other is; after a put-back it is what the edits say
pub mod Sweeping
pub mod SweepDecided
pub mod SweptEdits
