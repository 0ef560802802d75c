-- Laws of composition in the work slice.
pub mod Cover
pub mod Runs
pub mod Reached
pub mod Pairs
