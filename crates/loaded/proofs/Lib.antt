-- Laws of loaded tables: what is written for a table runs as that table.
pub mod Entry
pub mod Rows
pub mod Way
pub mod Refusal
pub mod Count
pub mod Theorems
