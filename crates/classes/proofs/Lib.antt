-- Laws of patterns with sets.
pub mod Classes
