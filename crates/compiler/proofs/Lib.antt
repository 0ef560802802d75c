-- Laws of the compile call, and demand 3 about it.
pub mod Wiping
pub mod Reading
pub mod Demand
