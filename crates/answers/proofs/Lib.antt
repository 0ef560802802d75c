-- Laws of answers.
pub mod Outcome
pub mod Slice
pub mod Answer
