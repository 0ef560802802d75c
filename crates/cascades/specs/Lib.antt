-- Rules, cascades and what they make of a sentence.
pub mod Pattern
pub mod Rule
pub mod Value
pub mod Rewrite
pub mod Ending
pub mod Leftmost
pub mod Spares
