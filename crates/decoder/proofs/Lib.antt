-- Laws that the functions' proofs cite.
pub mod Head
pub mod Whole
pub mod Loading
