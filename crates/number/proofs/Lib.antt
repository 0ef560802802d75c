-- Laws of numbering in the work slice.
pub mod Visits
pub mod Searching
pub mod Rows
