-- A loaded table: its numbers, and what any numbers make of a sentence.
pub mod Numbers
pub mod Run
