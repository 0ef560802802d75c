-- What compiling a book answers.
pub mod Compile
pub mod Instances
pub mod Demand
