-- The tree check: rooms, one entry, the places behind the subtrees, the whole program
pub mod TreeCheckRooms
pub mod TreeCheckEntries
pub mod TreeCheckEnds
pub mod TreeCheckWhole
-- Slots and lookups
pub mod SlotLaws
-- Showing: the leaves, the rules' returns, one combinator a file
pub mod Trees
pub mod ShowSources
pub mod ShowLeaves
pub mod ShowRules
pub mod ShowRuns
pub mod ShowWithin
pub mod ShowEach
pub mod ShowTests
pub mod ShowEntries
-- Putting back: words and slots, then one combinator a file
pub mod PutWords
pub mod PutSlots
pub mod PutRuns
pub mod PutLeaves
pub mod PutWithin
pub mod PutThen
pub mod PutBeside
pub mod PutEach
pub mod PutTest
pub mod PutChoose
pub mod PutBind
pub mod Theorems
