-- Laws of the worklist.
pub mod Marks
