-- What is proved of lines. No definition outside this folder rests on it.
pub mod Bools
pub mod Lists
pub mod SameTexts
pub mod WholeNumbers
pub mod Cutting
pub mod TableRule
pub mod KindRules
pub mod LineRules
pub mod MasterRules
pub mod FirstFault
pub mod LinesAt
pub mod Comparing
pub mod PutAt
pub mod WritingLines
