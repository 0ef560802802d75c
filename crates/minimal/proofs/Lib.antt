-- Laws of the smallest table of a cascade.
pub mod Matcher
pub mod Front
pub mod Bits
pub mod OneRule
pub mod Ending
pub mod TableOf
pub mod Theorems
pub mod Examples
