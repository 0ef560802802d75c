-- The run of a loaded table.
pub mod Run
