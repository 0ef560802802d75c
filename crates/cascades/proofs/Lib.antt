-- Laws of rules and cascades.
pub mod Pattern
pub mod Rewrite
pub mod Ending
pub mod Leftmost
