-- Theorems about compiling.
pub mod Marked
pub mod Examples
pub mod Everywhere
pub mod Limited
pub mod Sets
pub mod Answer
pub mod Parts
pub mod Demand
pub mod Runs
