-- Laws of words.
pub mod Word
pub mod Front
pub mod Overlap
pub mod Decides
pub mod Pieces
pub mod Parts
pub mod Regions
