-- Laws of building a table rule by rule.
pub mod Ending
pub mod Progress
