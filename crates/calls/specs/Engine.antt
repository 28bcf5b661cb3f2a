-- The engine's own vocabulary: what the parts of a call ask and leave. A reader of the calls need not know it.
pub mod Parts
