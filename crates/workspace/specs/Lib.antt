-- The lent slice of 16-bit numbers as rows, cells and entries.
pub mod Entries
pub mod Cells
pub mod Holds
