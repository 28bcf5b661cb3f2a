-- What the proofs of the functions share.
pub mod Lists
-- Where the two loops stand
pub mod SweptLines
pub mod NumberLines
pub mod Theorems
