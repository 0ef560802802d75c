-- The check call: laws.
pub mod Judging
pub mod Stages
