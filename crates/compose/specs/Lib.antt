-- Composition in the work slice.
pub mod Runs
pub mod Pairs
pub mod Composed
pub mod Products
