-- The engine's own vocabulary. A reader of the calls need not know it.
pub mod Words
