-- What the proofs of the functions share.
pub mod Digits
pub mod Forms
pub mod Scanning
pub mod Scans
pub mod Masters
pub mod Writes
pub mod Theorems
