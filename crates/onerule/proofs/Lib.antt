-- Laws of the rule's transducer, as the code writes it.
pub mod Words
pub mod Behind
pub mod Agree
pub mod Ruled
pub mod Formed
