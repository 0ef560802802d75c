-- The check of a table.
pub mod Check
