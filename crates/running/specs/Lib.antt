-- The run of a book that has been read.
pub mod Rules
