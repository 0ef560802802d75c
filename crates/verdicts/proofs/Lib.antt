-- The answer of a check as one number: laws and theorems.
pub mod Legible
pub mod Theorems
