-- Numbering in the work slice.
pub mod Order
pub mod Numbering
