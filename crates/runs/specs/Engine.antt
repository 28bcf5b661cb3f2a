-- The engine's own vocabulary: what its parts ask and leave. A reader of the calls need not know it.
-- Programs beside their entries
pub mod Trees
pub mod Ends
pub mod Rooms
pub mod Checking
-- Values, standings and slots in the work slice, and where a run stands
pub mod Runs
pub mod SlotWords
pub mod Ats
pub mod Leaves
