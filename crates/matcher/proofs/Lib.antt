-- Laws of the next state.
pub mod Next
