-- Labels and listed words in slices of numbers.
pub mod Listing
