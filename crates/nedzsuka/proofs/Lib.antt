-- The functions for C: their numbers tell every outcome, and the demands about them.
pub mod Legible
pub mod Demand
pub mod Loaded
pub mod Typing
pub mod Rules
pub mod Starter
