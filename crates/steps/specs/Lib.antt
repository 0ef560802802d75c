-- One step of a table in bytes and in the index.
pub mod Entry
pub mod Part
