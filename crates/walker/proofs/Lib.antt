-- Laws of the run.
pub mod Runs
