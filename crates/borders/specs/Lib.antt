-- The longest borders of a word's prefixes.
pub mod Border
