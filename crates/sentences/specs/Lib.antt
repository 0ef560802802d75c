-- Sentences that are run: their refusals, the result and its place in the output slice.
pub mod Run
pub mod Parts
pub mod Admission
