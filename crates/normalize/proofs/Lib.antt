-- Laws of normalization in the work slice.
pub mod Meets
pub mod Lower
pub mod Strips
pub mod Done
