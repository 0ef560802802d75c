-- One step of two tables, one in its bytes and one in the work slice.
pub mod Step
