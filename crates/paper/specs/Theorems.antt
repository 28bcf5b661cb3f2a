-- What the theorems of proofs/Theorems rest on, and what is computed.
-- The constructs over their parts, and comparisons by a judge; trees between the two pages
pub mod Constructs
pub mod Judges
pub mod Trees
-- Where nothing is padded, 11 as printed: what is said of it
pub mod AsPrinted
-- Computed: the paper's own examples, and each difference
pub mod Examples
pub mod Differences
