-- Laws of the search.
pub mod Leftmost
pub mod Examples
