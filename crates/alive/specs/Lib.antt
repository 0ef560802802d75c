-- The matches still alive, as bits.
pub mod Alive
