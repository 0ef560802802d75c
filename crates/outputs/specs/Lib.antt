-- The words of a rule's transducer.
pub mod Words
