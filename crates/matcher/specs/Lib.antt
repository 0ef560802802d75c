-- The states of a rule's transducer as numbers.
pub mod Next
