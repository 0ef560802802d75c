-- The starter table.
pub mod Starter
