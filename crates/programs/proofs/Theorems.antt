-- Reading takes exactly the sound programs, and stops at the first fault of any other.
-- Ways down and lines in prefix order, as far as they go
pub mod SoFar
-- What reading does
pub mod Reading
pub mod Faults
-- Computed
pub mod ProgramExamples
