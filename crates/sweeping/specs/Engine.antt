-- The engine's own vocabulary: what the parts of a sweep ask and promise. A reader of the call need not know it.
pub mod Parts
