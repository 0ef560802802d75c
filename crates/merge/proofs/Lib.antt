-- Laws of merging in the work slice.
pub mod Keys
pub mod Names
pub mod Rounds
pub mod Seats
