-- Laws.
pub mod Beside
pub mod Step
pub mod Search
pub mod Stored
