-- What is proved of the forms for C.
-- Their contracts decide the answer and the output
pub mod Unique
-- What a host reads meets the demands
pub mod Demands
