-- A list in the notes of rows, with marks.
pub mod Worklist
