-- A sentence's way through a loaded table.
pub mod Walk
