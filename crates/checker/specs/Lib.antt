-- The check call.
pub mod Ended
