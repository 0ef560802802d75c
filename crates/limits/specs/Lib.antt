-- The bounds of document 01, and the limits of a call.
pub mod Limits
pub mod Work
pub mod Within
