-- Words of tags: what the layers above say of them.
pub mod Word
pub mod Front
pub mod Overlap
pub mod Decides
pub mod Pieces
pub mod Parts
