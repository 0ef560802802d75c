-- Laws of the identity's row.
pub mod Row
