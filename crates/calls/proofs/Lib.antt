-- What the proofs of the functions share.
pub mod Steps
-- Writing: the line of a word, a line with its standing
pub mod WordLines
pub mod HandedLines
-- Scanned files and verdicts: the places that replies name
pub mod Places
-- The lines that the code reads, by the places that were noted
pub mod Noted
-- The edited view: its judging, and the words of what its lines bring
pub mod Differing
pub mod ViewJudging
pub mod ViewWords
-- The master's standings: their clashes
pub mod Clashes
-- A run over one master, in the code's terms
pub mod Grounded
-- The program and the master, judged
pub mod JudgedFiles
-- The source's words, and what the run leaves
pub mod Sources
pub mod Carried
pub mod Carrying
pub mod Comparing
-- A sweep: its room, and what its writers leave
pub mod Swept
pub mod Theorems
