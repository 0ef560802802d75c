-- Some places of a sentence.
pub mod Places
