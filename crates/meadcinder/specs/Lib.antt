-- What a reader believes: what an answer holds, what a host reads in it, and the demands of a form for C
pub mod Forms
pub mod Demands
-- What is proved of these
pub mod Theorems
