-- Section 3 of the paper (source 001) as it stands there, without functions and `ins`: in its order and with its names. A comparison by a judge is not the paper's.
pub mod Data
pub mod Language
pub mod Contexts
pub mod Operators
pub mod Semantics
-- Beside it: the strict guard, document 01's operations in the paper's names, and lines read as the paper's data and printed
pub mod Strict
pub mod Programs
pub mod Lines
-- Demand 2 against it: on lines that were judged, and on bytes
pub mod Agreement
pub mod Calls
-- What is proved of these
pub mod Theorems
