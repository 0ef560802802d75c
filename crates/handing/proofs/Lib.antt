-- Laws that the functions' proofs cite.
pub mod Legible
pub mod Handing
