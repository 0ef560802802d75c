-- Whether two tables make the same of every sentence: laws.
pub mod Tables
pub mod Trying
pub mod Search
