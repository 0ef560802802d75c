-- End tags.
pub mod Usable
