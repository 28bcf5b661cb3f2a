-- The engine's own vocabulary: a byte as a digit, a file by where its lines begin, a number of each text, and what the scanner and the writer leave. A reader of the calls need not know it.
pub mod Digits
pub mod Starts
pub mod Sums
pub mod Texts
pub mod Writes
