-- Laws of the run of a book.
pub mod Numbers
