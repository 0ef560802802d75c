-- Laws of entries and their numbers.
pub mod Numbers
pub mod Resting
