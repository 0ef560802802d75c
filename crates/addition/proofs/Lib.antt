-- Laws of one more rule.
pub mod Phases
