-- Laws of the number.
pub mod Number
