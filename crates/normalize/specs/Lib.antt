-- Normalization in the work slice.
pub mod Fronts
pub mod Strip
