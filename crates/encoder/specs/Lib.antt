-- The bytes of a table that stands in the work slice.
pub mod Encoding
