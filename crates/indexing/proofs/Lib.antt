-- Laws that the functions' proofs cite.
pub mod Rows
pub mod Progress
