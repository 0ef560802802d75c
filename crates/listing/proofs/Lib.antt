-- Labels and listed words in slices of numbers: laws.
pub mod Labels
pub mod Words
