-- Whether two transducers do the same.
pub mod Beside
pub mod Search
pub mod Stored
