-- The index of a table.
pub mod Entries
