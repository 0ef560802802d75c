-- Laws of writing rows.
pub mod Steps
pub mod Rows
pub mod Tables
