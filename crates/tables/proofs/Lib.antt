-- Laws of tables and their bytes, and the theorem on encode and decode.
pub mod Words
pub mod Parts
pub mod Theorem
pub mod Outcomes
pub mod Transduction
