-- A piece of a sentence.
pub mod Pieces
