-- Laws of books.
pub mod Step
pub mod Sets
pub mod Encode
pub mod Ending
pub mod Wider
pub mod Refusal
pub mod Some
pub mod Arrays
pub mod Commands
pub mod SoFar
pub mod Resume
pub mod Held
pub mod Examples
pub mod Tried
