-- Whether two tables make the same of every sentence.
pub mod Tables
pub mod Both
pub mod Search
