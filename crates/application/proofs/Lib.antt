-- Laws that the functions' proofs cite.
pub mod Pieces
pub mod Rules
