-- Writing the rows of a loaded table.
pub mod Parts
