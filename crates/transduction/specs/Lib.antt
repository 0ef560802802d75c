-- What the parts of a table's run promise one another.
pub mod Parts
