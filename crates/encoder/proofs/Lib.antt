-- Laws of written bytes.
pub mod Encoding
