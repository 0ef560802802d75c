-- An outcome as one number.
pub mod Packed
