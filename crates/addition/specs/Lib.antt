-- One more rule in the work slice.
pub mod Addition
