-- Laws of the walk.
pub mod Words
pub mod Turns
