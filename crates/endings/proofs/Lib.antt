-- Laws of end tags.
pub mod Ending
