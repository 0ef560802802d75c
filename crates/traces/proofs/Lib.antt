-- Laws of numbers beside tags.
pub mod Note
pub mod Places
pub mod Theorems
pub mod Examples
