-- Laws of the output slices and of the answer.
pub mod Run
