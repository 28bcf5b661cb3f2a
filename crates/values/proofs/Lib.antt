-- What the proofs of the functions share.
pub mod Words
pub mod Theorems
