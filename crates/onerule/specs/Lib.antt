-- The transducer of one rule in the work slice.
pub mod Rule
pub mod States
