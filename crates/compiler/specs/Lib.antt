-- The compile call.
pub mod Answer
pub mod Rows
pub mod Ended
