-- The run of a book.
pub mod Run
pub mod Numbers
pub mod Reading
