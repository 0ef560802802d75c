-- Outcomes of calls.
pub mod Outcome
pub mod Slice
pub mod Answer
