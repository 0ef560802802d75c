-- Merging in the work slice.
pub mod Classes
pub mod Seats
