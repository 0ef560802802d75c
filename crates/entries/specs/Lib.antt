-- A state by its entries in an index.
pub mod State
