-- An open sentence as three numbers.
pub mod Typing
