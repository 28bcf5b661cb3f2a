-- What is proved of our calls and of others beside them. It defines nothing to be believed.
pub mod Theorems
