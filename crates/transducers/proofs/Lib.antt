-- Laws of transducers.
pub mod Run
pub mod Lower
pub mod Unique
pub mod Tabulate
pub mod Compose
pub mod Ended
pub mod Rounds
pub mod Normalize
pub mod Find
pub mod Merge
pub mod Number
