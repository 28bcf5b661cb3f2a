-- What is proved of other calls beside ours
pub mod Theorems
