-- Laws of measuring.
pub mod Total
