-- Tables: what a valid one is, its bytes, their reading, and the run of a table.
pub mod Valid
pub mod Bytes
pub mod Decode
pub mod Run
