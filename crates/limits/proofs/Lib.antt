-- Laws of limits.
pub mod Range
pub mod Work
