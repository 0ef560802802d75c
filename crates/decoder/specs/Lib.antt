-- Reading the bytes of a table: what is answered, and the index that is filled.
pub mod Answer
pub mod Index
