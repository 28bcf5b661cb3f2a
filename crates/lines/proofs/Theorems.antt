-- What is proved of lines and fails with a wrong definition. No definition outside this folder rests on it.
pub mod CountedMarks
pub mod TrimmedTexts
pub mod LongFiles
pub mod Pairs
pub mod Places
pub mod Reading
pub mod RoundTrip
pub mod Widths
