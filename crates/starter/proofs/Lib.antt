-- Theorems about the starter table.
pub mod Starter
