-- The bytes of a book.
pub mod Book
pub mod Read
pub mod Ending
pub mod Arrays
pub mod Answer
pub mod Resume
pub mod Tried
