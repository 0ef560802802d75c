-- Sequential transducers, and tables of rows.
pub mod Transducer
pub mod Table
pub mod Run
pub mod Numbered
pub mod Canonical
pub mod Tabulate
pub mod Compose
pub mod Ended
pub mod Rounds
pub mod Normalize
pub mod Find
pub mod Merge
pub mod Number
