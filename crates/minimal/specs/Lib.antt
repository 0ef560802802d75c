-- The smallest table of a cascade.
pub mod Matcher
pub mod Bits
pub mod OneRule
pub mod TableOf
