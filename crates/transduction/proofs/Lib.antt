-- Laws that the functions' proofs cite.
pub mod Output
pub mod Turn
pub mod Runs
