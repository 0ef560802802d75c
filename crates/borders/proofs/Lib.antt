-- Laws of borders.
pub mod Border
pub mod Running
pub mod Theorems
pub mod Examples
