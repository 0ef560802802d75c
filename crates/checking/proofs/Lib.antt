-- The check of a table: theorems.
pub mod Tests
pub mod Theorems
