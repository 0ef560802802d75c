-- Balanced steps, as the counts of the index tell them.
pub mod Level
