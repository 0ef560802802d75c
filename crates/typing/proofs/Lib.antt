-- Laws that the functions' proofs cite, and the theorems.
pub mod Stands
pub mod Gives
pub mod Holds
pub mod Ends
pub mod Theorems
pub mod Examples
