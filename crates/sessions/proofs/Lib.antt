-- Theorems about any calls from an opening on.
pub mod Session
pub mod Theorems
pub mod Examples
