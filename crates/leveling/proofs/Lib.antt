-- Laws of the counts.
pub mod Level
