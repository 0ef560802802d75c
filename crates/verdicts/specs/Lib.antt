-- The answer of a check as one number.
pub mod Numbered
