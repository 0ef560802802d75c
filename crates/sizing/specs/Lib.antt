-- Both sizes as one number.
pub mod Sizes
