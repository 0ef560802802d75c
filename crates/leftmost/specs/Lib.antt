-- The leftmost occurrence.
pub mod Leftmost
